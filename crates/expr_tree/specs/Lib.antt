pub mod Trees
pub mod Measures
