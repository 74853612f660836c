-- In reading order.
pub mod Read
