pub mod SoFar
pub mod Rooms
pub mod Finding
pub mod Going
pub mod Steps
pub mod Folding
