pub mod Prefixes
pub mod Families
