pub mod Order
pub mod Used
pub mod Arrange
pub mod Laws
