pub mod Words
pub mod Lines
pub mod Forms
pub mod Parts
pub mod Reads
pub mod Laws
