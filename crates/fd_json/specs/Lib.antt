pub mod Taken
pub mod Clipped
pub mod Numeral
