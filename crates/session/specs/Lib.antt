pub mod Session
pub mod Seen
