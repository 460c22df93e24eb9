pub mod Regions
pub mod Exactly
pub mod Laws
