pub mod Apart
pub mod IsWalk
pub mod Changed
pub mod Histories
pub mod Asking
pub mod Acting
pub mod Since
pub mod Rows
