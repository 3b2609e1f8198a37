pub mod Asked
pub mod Plane
pub mod Judging
pub mod Levels
pub mod Revisits
pub mod Tubes
