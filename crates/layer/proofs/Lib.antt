pub mod Buckets
pub mod Writes
pub mod Puts
pub mod Ways
