pub mod Places
pub mod Names
pub mod Lowest
pub mod Reading
pub mod Known
