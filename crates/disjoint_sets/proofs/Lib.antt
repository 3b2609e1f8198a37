pub mod Ways
pub mod Trees
pub mod Roots
