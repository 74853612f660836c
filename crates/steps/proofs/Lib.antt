mod Reading
mod Aiming
mod Choosing
pub mod Turns
