pub mod Lines
pub mod Replying
pub mod Outcomes
