pub mod Stored
pub mod Tokens
pub mod Readings
pub mod Laws
pub mod Answers
