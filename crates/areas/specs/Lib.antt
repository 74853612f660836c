-- In reading order.
pub mod Cells
pub mod Writers
