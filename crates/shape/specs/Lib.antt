pub mod AtOnce
pub mod Records
pub mod Laws
