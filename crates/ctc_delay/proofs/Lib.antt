pub mod PlaceTicks
pub mod Strides
pub mod Counts
pub mod Formulas
pub mod DelayHulls
pub mod OverWindows
pub mod Tests
pub mod PossibleDelays
pub mod Stable
mod Examples
