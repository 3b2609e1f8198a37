pub mod Reading
pub mod Stable
