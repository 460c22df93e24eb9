-- S7 of one partition in code, and with it S11 and the open bits of what was given (Cover).
pub mod Cover
pub mod Laws
