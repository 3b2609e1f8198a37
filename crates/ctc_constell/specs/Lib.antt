pub mod Points
pub mod Constellations
pub mod PointLaws
pub mod ConstellLaws
pub mod Fixed
