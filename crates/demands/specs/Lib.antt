pub mod Demands
pub mod Branch
pub mod Checks
pub mod Sheet
pub mod Plain
pub mod Laws
