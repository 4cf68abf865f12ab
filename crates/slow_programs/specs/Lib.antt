pub mod EditError
pub mod Joining
