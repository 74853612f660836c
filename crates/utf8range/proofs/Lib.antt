pub mod Cuts
pub mod Skips
pub mod Carrying
pub mod Samples
