pub mod Fnv
pub mod Fold
pub mod Load
