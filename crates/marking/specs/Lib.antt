pub mod Backing
pub mod Marking
pub mod Laws
