pub mod Numbers
pub mod Hops
