pub mod Steps
pub mod Fields
pub mod Kinds
pub mod Said
pub mod Sentences
pub mod Laws
