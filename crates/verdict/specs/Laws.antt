pub mod Records
pub mod Opens
