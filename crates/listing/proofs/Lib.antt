pub mod Inside
pub mod Tables
