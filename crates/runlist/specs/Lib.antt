-- What is settled before a record of a run is written (Listing).
pub mod Listing
pub mod Laws
