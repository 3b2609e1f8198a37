pub mod Counting
pub mod RowPieces
