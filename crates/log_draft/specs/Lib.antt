pub mod Names
pub mod Room
pub mod Growing
pub mod Kept
