mod Examples
pub mod Joins
pub mod LinkedCells
pub mod Members
pub mod Resets
pub mod Withdrawals
