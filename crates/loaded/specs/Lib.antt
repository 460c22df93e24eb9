pub mod Limit
pub mod Opening
pub mod Laws
