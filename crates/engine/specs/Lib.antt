pub mod State
pub mod Seen
pub mod Calls
pub mod Serves
pub mod Draws
pub mod Writes
pub mod Changes
