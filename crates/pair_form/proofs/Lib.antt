pub mod Cuts
pub mod Pieces
pub mod Spelled
pub mod LinkWords
pub mod Links
pub mod Sources
