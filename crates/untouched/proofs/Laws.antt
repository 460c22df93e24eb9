pub mod Frame
pub mod Served
pub mod Theorem
pub mod TwoLists
pub mod Lent
