pub mod Pick
pub mod Unloading
pub mod CutExits
pub mod GiveExits
pub mod TakeExits
pub mod MergeExits
pub mod Laws
