-- In reading order.
pub mod Plan
pub mod Folds
