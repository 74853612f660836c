pub mod Starts
pub mod Outcomes
pub mod Counted
pub mod Call
