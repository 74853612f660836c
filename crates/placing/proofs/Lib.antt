pub mod Words
pub mod Steps
pub mod Passing
pub mod Spelled
pub mod Theorem
