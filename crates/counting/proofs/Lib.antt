pub mod Counted
pub mod Bytes
pub mod Skips
pub mod Passing
pub mod Samples
