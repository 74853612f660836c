-- In reading order.
pub mod Tallying
pub mod Bounds
