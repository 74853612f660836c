pub mod Earlier
pub mod Marking
