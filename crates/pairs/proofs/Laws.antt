pub mod Pair
pub mod Exits
pub mod Exactly
