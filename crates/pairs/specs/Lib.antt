-- A region's register pair on ARMv8-M, and the entry that it tells.
pub mod Word
pub mod Pair
pub mod Exactly
pub mod Laws
