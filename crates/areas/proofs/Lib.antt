pub mod Cells
pub mod Writers
