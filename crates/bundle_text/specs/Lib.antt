pub mod Lines
pub mod Bundles
pub mod Laws
