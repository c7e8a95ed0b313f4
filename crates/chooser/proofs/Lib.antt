pub mod Rotations
pub mod Hashes
pub mod Largest
