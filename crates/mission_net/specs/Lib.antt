pub mod Records
pub mod Tables
pub mod Building
pub mod Laws
pub mod Costs
