pub mod Held
pub mod Replies
pub mod Addresses
pub mod Telling
