pub mod LastWord
pub mod Samples
