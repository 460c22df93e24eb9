pub mod Face
pub mod Lists
pub mod Check
pub mod Laws
