pub mod Lowest
pub mod Rising
pub mod Results
pub mod Calls
pub mod BranchProof
pub mod PlainProof
