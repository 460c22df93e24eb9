-- Demand 3: a ledger kept by hand from an accepted boot is what holders lists, after any list of calls.
pub mod Ledger
pub mod Lists
pub mod Theorem
pub mod Laws
