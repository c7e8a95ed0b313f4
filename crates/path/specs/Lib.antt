pub mod Shorter
pub mod Prune
pub mod PathLaws
