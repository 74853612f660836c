pub mod Spaces
pub mod Cases
pub mod Containers
pub mod Strings
pub mod Ready
pub mod Turns
pub mod Sheets
