pub mod Distances
pub mod PointLaws
pub mod DistLaws
pub mod Fixed
