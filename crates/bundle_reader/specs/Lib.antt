pub mod Fronts
pub mod Parts
pub mod Bytes
pub mod Sets
pub mod Pieces
