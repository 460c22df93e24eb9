pub mod Who
pub mod Items
pub mod Laws
