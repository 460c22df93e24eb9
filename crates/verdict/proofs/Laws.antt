pub mod Names
pub mod Stages
