-- In reading order.
pub mod Having
pub mod Measures
pub mod Naming
