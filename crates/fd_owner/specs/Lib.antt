pub mod History
pub mod Shown
pub mod Owner
pub mod Step
pub mod Untouched
pub mod Clears
