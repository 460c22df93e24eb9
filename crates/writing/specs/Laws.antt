pub mod Stored
pub mod Clearing
pub mod Empty
