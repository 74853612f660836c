pub mod Fresh
pub mod Clean
pub mod Sayable
pub mod Lengths
pub mod Reading
pub mod Samples
