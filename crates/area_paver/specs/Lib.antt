pub mod Survey
pub mod Lattice
pub mod Runs
pub mod Charts
pub mod Laws
