pub mod Pack
pub mod Brief
pub mod Named
