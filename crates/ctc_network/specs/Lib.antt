pub mod Nets
pub mod Noting
pub mod Schedule
pub mod Sections
pub mod Settling
pub mod Resetting
