pub mod Queries
pub mod Findings
pub mod Cost
pub mod Texts
pub mod Writing
pub mod Laws
