pub mod Coverages
pub mod Texts
pub mod Writing
pub mod Laws
