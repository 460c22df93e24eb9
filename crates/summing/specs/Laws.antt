pub mod Sums
pub mod Walk
pub mod Written
