pub mod Parts
pub mod Kind
pub mod Kinds
pub mod Fields
pub mod Refusals
pub mod Same
pub mod Slots
pub mod Later
