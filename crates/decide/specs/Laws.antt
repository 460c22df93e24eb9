pub mod Entries
pub mod Decide
pub mod Local
pub mod Granted
pub mod Decided
pub mod Tiles
pub mod Lines
pub mod Walk
