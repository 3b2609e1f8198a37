pub mod Hulls
pub mod Places
pub mod Carrying
pub mod Products
pub mod Stretches
pub mod Covering
pub mod Blocks
pub mod Moving
pub mod Stable
mod Examples
