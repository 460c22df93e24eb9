pub mod Limit
pub mod Sound
pub mod Clauses
pub mod Core
pub mod Properties
pub mod Whole
pub mod Holders
pub mod Laws
