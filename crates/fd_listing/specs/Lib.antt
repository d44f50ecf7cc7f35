pub mod Opening
pub mod Listing
pub mod Counting
