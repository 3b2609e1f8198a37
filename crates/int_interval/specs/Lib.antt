pub mod Image
pub mod Inverse
