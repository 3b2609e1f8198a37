pub mod Lookups
pub mod Saying
pub mod Satisfied
pub mod Promise
