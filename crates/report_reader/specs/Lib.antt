pub mod Words
pub mod Sections
pub mod Breaks
pub mod Described
pub mod Laws
