pub mod Held
pub mod Line
pub mod Reply
pub mod Told
