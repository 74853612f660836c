pub mod Children
pub mod Ordering
pub mod Beginning
