pub mod Counted
mod Lines
