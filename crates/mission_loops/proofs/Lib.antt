pub mod Asking
pub mod Telling
pub mod Law
pub mod Spans
pub mod Steps
pub mod Taking
