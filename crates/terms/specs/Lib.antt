pub mod Words
pub mod Operators
pub mod Numbers
pub mod Terms
pub mod Examples
