pub mod Calls
pub mod Hub
pub mod Promises
pub mod Recovery
pub mod Reopening
pub mod Run
pub mod Steps
