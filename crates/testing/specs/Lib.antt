-- In reading order.
pub mod Types
