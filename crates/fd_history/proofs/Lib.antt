pub mod Gathers
pub mod Settles
pub mod Chains
pub mod Keeping
pub mod VersionOnes
pub mod PassedBy
pub mod VersionTwos
