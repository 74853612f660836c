pub mod Words
pub mod Bundles
mod Samples
