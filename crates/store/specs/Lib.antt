pub mod Content
pub mod Slots
pub mod Numbers
