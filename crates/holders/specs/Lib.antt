-- The pieces of an entry, listed.
pub mod Listing
pub mod Laws
