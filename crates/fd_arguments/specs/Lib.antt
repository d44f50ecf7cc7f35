pub mod Words
pub mod Made
mod Refusing
pub mod Wanting
