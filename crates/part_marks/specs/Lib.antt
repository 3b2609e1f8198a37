pub mod Marks
pub mod Nets
