pub mod Cover
pub mod Given
