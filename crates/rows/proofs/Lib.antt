-- In reading order.
pub mod Firsts
