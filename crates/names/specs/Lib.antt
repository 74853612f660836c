pub mod Names
pub mod Lain
