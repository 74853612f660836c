-- In reading order.
pub mod Ruleset
pub mod Codes
pub mod Sheet
pub mod Faults
pub mod Read
pub mod Clauses
pub mod Found
