-- The pass that decides S1 to S5 and compares the sheet (Once).
pub mod Once
pub mod Laws
