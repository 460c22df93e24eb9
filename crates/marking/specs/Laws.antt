pub mod Backing
pub mod Marking
