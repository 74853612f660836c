-- In reading order.
pub mod Members
pub mod Gathering
