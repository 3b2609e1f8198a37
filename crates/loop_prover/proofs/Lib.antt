pub mod Stepping
pub mod Labelled
pub mod Holding
