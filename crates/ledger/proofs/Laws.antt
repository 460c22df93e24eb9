pub mod Kept
pub mod LedgerRuns
