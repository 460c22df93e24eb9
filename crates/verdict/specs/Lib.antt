pub mod Verdict
pub mod Stages
pub mod Laws
