pub mod Tracing
pub mod Waits
