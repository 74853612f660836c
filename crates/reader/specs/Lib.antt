-- In reading order.
pub mod Faults
pub mod Call
pub mod Made
