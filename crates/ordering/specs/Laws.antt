pub mod Order
pub mod Used
pub mod Present
pub mod Arrange
