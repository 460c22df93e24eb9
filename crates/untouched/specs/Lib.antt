-- What the calls of a branch can't touch; and that what was lent whole to it comes back.
pub mod Untouched
pub mod Lent
pub mod Laws
