pub mod Runs
pub mod Rows
pub mod Quartering
pub mod Paving
pub mod Components
pub mod Forests
