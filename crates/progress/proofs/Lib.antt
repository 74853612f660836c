pub mod State
pub mod Pairs
pub mod Going
pub mod Claused
pub mod Turning
pub mod Testing
pub mod Named
