pub mod Bounded
pub mod Acts
pub mod Ahead
pub mod Places
