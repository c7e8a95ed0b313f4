pub mod Paint
pub mod Reach
pub mod Whole
