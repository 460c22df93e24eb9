pub mod Lists
pub mod Listing
pub mod LedgerRuns
pub mod Packed
