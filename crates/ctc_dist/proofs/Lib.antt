pub mod Reading
pub mod Stable
pub mod Examples
pub mod Pairs
