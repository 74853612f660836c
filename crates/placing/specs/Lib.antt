pub mod Lexemes
pub mod Desk
pub mod Fair
