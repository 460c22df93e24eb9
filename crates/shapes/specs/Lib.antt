-- The pieces of a block: on ARMv7-M each a power of two of lines, at a multiple of it; on ARMv8-M the block itself.
pub mod Pieces
pub mod Fewest
pub mod Laws
