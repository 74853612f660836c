-- In reading order.
pub mod Found
pub mod Limits
