pub mod Queue
pub mod Parts
