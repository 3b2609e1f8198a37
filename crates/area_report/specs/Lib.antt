pub mod Marks
pub mod Areas
