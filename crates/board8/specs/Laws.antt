pub mod Regions
pub mod Exactly
