pub mod Records
pub mod Keeping
