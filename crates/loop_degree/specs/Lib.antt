pub mod Pairs
pub mod Cells
pub mod Labels
pub mod Boundary
pub mod Steps
pub mod Degree
