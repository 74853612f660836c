-- Laws, in reading order.
pub mod Halting
pub mod Firsts
pub mod Telling
pub mod Calls
