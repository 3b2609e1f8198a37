pub mod Boundaries
pub mod Uniform
pub mod Places
pub mod Clocks
pub mod Slices
pub mod Shares
