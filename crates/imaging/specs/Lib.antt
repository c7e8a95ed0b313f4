pub mod Vertices
pub mod Make
pub mod Look
