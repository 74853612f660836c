pub mod Atoms
pub mod Steps
pub mod Units
