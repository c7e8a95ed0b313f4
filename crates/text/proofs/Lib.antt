pub mod Marks
pub mod Digits
pub mod Pairs
pub mod FirstLine
