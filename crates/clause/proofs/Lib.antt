-- In reading order.
pub mod Reading
pub mod Listing
pub mod Requiring
pub mod Equality
pub mod Asserting
pub mod Telling
