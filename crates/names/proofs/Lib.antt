pub mod Repeats
pub mod Signs
