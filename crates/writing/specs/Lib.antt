pub mod CanWrite
pub mod Stored
pub mod Laws
