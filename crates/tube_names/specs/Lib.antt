pub mod Leaves
pub mod Nearness
pub mod Points
