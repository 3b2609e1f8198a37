pub mod Sections
pub mod Texts
pub mod Leaving
pub mod Printed
