pub mod Graph
pub mod Places
pub mod Worklist
pub mod Lengths
