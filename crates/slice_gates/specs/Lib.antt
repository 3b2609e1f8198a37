pub mod Cuts
pub mod Ticks
pub mod Clock
pub mod Near
