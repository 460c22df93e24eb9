pub mod Who
pub mod Pieces
