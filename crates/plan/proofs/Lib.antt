-- Laws, in reading order.
pub mod Folds
pub mod Cuts
pub mod Picks
pub mod Children
pub mod Ending
pub mod Branching
pub mod Plans
