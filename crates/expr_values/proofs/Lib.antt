pub mod Bounds
pub mod Sums
pub mod Ends
pub mod Ranges
pub mod Monotone
pub mod Solutions
mod Examples
