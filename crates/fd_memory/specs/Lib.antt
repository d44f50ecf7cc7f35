mod Making
pub mod Wanting
