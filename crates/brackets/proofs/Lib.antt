pub mod Bits
pub mod Moving
