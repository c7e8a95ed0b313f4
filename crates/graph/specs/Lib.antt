pub mod Slots
pub mod Calls
pub mod Descend
pub mod Find
pub mod Keep
pub mod View
pub mod Grow
