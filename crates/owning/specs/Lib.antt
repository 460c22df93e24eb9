-- S8 of one partition in code: laws alone.
pub mod Laws
