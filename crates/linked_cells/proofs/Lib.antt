pub mod Joins
pub mod Progress
pub mod Members
pub mod Linking
pub mod Gathered
pub mod Inside
pub mod Choosing
