pub mod Masks
pub mod Marking
pub mod Exits
