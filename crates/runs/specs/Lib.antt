pub mod Runs
pub mod Pieces
pub mod Places
pub mod Ways
pub mod Marks
pub mod Laws
