pub mod Doubts
pub mod Lines
pub mod Sections
pub mod Printed
pub mod Queries
pub mod Bundles
