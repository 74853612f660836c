-- In reading order.
pub mod Utf8
pub mod Text
pub mod Datum
pub mod Number
pub mod Value
pub mod Automaton
pub mod Refusal
pub mod Sightings
pub mod Starts
pub mod Along
