pub mod Entries
pub mod Local
pub mod Decide
pub mod Tiles
pub mod Walk
pub mod Laws
