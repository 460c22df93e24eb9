pub mod Bytes
pub mod Quads
pub mod ByteRecords
pub mod Laws
