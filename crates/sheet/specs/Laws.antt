pub mod Children
pub mod Kept
pub mod Those
pub mod Touched
