pub mod Spelled
pub mod Lowest
