-- In reading order.
pub mod Lists
pub mod Tests
pub mod Rules
pub mod Derivation
pub mod Keywords
pub mod Settling
pub mod Answer
pub mod Fit
pub mod Once
pub mod Demands
