pub mod Products
pub mod Hulls
pub mod Images
pub mod Monotone
pub mod Sets
pub mod Inverses
pub mod Division
pub mod Reaches
