-- The line engine, driven by the calls of the other one: its masks name who holds each line.
pub mod Engines
pub mod Laws
