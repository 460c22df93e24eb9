pub mod AtOnce
pub mod Absent
pub mod Records
