pub mod Figured
pub mod Bounds
