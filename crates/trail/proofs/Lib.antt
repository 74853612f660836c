-- Laws, in reading order.
pub mod Places
pub mod Moves
pub mod Finding
pub mod Naming
pub mod Ordered
pub mod Along
pub mod Limits
pub mod Whole
