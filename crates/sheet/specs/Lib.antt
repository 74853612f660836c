-- In reading order.
pub mod Kinds
pub mod Refusals
pub mod Doc
pub mod Record
pub mod Faults
pub mod Accepted
