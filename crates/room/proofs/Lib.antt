pub mod Taken
pub mod Fitting
pub mod Numbering
pub mod Rooms
