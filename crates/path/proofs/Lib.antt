pub mod Downward
pub mod Folding
pub mod Laws
