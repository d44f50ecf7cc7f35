pub mod Fence
pub mod Seats
pub mod Teams
pub mod Lanes
pub mod Fakes
pub mod World
