pub mod Causes
pub mod InMemory
pub mod Moves
pub mod Sends
pub mod Whole
