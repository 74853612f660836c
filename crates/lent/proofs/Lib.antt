pub mod Reading
pub mod Ways
pub mod Marks
