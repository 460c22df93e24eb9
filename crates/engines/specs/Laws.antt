pub mod Members
pub mod Mirrors
