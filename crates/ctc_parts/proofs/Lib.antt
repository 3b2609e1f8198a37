pub mod Members
pub mod Firing
pub mod Marking
pub mod Visiting
pub mod Testing
pub mod Quiet
pub mod Cleaning
