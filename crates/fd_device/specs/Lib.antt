mod Asking
pub mod Beside
pub mod Device
pub mod Transfer
