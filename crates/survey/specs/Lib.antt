pub mod Watching
pub mod Told
pub mod Bounds
