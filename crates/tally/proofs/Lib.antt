pub mod Sizes
pub mod Adding
pub mod Tallied
pub mod Counting
pub mod Bounded
