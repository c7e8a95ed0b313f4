pub mod Command
pub mod Left
