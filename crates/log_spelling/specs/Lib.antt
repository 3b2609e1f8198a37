pub mod Blanks
pub mod Numbers
pub mod Names
pub mod References
pub mod Kinds
pub mod Laws
