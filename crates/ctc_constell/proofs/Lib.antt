pub mod Reading
pub mod Meeting
pub mod Stable
pub mod Examples
pub mod Passes
