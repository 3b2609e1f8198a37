pub mod Draws
pub mod Course
pub mod Roots
pub mod Laws
