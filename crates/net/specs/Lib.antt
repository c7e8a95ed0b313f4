pub mod Prefix
pub mod Equality
