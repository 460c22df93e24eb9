-- What the walk over a record gathers, and the two words that come of it (Sums).
pub mod Sums
pub mod Laws
