pub mod Quads
pub mod ByteTrips
pub mod ByteRecords
