pub mod Ways
pub mod Trees
