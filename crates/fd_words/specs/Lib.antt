pub mod Limits
pub mod Line
pub mod Text
pub mod Sending
pub mod Report
pub mod Request
