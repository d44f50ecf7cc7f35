pub mod Limits
pub mod Pam
pub mod Writes
