pub mod RowLaws
pub mod RunLaws
pub mod Putting
pub mod Advancing
pub mod Squares
pub mod Filling
pub mod Lists
pub mod Roots
pub mod Sweeps
pub mod Gathering
pub mod Reaching
pub mod Spans
mod Examples
