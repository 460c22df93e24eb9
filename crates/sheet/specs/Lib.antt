-- Whose words of a sheet a call can change, and how the code brings it up to the table (Touched).
pub mod Touched
pub mod Laws
