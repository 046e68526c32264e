pub mod Breaks
pub mod Pieces
pub mod Cut
pub mod Examples
