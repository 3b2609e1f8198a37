pub mod Uses
pub mod Numbers
pub mod PointCells
