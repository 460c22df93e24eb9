pub mod Listings
pub mod Written
pub mod ChecksProof
pub mod SheetProof
