-- In reading order.
pub mod Number
pub mod Forest
pub mod Breadth
pub mod Sheet
pub mod Meaning
pub mod Words
pub mod Counters
pub mod Tokens
