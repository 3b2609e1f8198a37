pub mod Ring
pub mod Kept
pub mod Cells
pub mod Adding
pub mod OverTicks
pub mod Resetting
