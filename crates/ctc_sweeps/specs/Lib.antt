pub mod SliceSweeps
pub mod SliceSweepLaws
pub mod DerivSweeps
pub mod DerivSweepLaws
