pub mod Limit
pub mod Regions
