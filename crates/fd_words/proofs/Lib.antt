pub mod Gathering
pub mod Words
pub mod EventLines
pub mod Numbers
