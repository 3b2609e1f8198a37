pub mod Expressions
pub mod Operators
pub mod Comparisons
pub mod Values
pub mod Targets
