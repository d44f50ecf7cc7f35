pub mod History
pub mod Gathered
pub mod Settled
pub mod Chain
pub mod VersionOne
pub mod VersionTwo
pub mod ListedTriangle
