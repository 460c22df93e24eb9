-- The sheet beside a table: its words and its rules (Sheet), and its bytes (Bytes).
pub mod Sheet
pub mod Bytes
pub mod Laws
