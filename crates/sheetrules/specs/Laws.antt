pub mod Rules
pub mod Held
pub mod Bytes
