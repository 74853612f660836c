-- Laws, in reading order.
pub mod Ends
pub mod Stacking
pub mod Going
