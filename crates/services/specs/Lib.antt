pub mod Zeroed
pub mod RegionExits
pub mod DeleteExits
pub mod ClearExits
pub mod PackExits
pub mod Laws
