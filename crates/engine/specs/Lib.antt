-- A ledger of masks, one a line, bit p for partition p.
pub mod Engine
pub mod Laws
