pub mod Still
pub mod Orders
pub mod Strung
pub mod Numbered
pub mod Watched
pub mod Branches
pub mod Ranges
pub mod Bounded
