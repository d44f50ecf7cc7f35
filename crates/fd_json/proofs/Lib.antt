pub mod Plain
pub mod Signs
pub mod Turns
pub mod Within
pub mod Clips
pub mod Found
pub mod Shapes
