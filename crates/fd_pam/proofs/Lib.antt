pub mod Pams
pub mod RowPieces
