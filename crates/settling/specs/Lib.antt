pub mod Rising
pub mod Room
pub mod Gather
pub mod Areas
pub mod UpTo
pub mod Settled
pub mod Laws
