pub mod Asked
pub mod Rows
pub mod Rules
pub mod Usage
