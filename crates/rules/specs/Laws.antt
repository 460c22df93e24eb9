pub mod Each
pub mod Branch
pub mod Ran
pub mod Changes
pub mod Calls
pub mod Reads
pub mod Unloaded
pub mod Removed
