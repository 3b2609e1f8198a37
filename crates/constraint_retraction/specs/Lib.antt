pub mod Joining
pub mod Linked
pub mod Resetting
pub mod Withdrawal
