pub mod Marked
pub mod Stable
pub mod Written
