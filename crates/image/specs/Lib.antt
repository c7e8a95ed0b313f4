pub mod Image
pub mod Picture
pub mod Cases
pub mod Count
pub mod Worked
