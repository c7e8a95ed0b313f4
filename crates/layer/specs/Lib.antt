pub mod Buckets
pub mod Layers
pub mod Places
pub mod Seen
pub mod Numbers
