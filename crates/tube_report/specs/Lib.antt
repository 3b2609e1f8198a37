pub mod Lines
pub mod Causes
pub mod Sections
pub mod Places
pub mod Laws
