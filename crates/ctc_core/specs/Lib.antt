pub mod Revising
pub mod Answers
pub mod Checking
pub mod Given
