pub mod Rows
pub mod Reader
