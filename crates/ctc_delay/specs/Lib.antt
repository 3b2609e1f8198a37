pub mod Places
pub mod Delays
pub mod Ranges
pub mod Hulls
pub mod DelayLaws
pub mod Windows
pub mod WindowLaws
