pub mod Answering
pub mod Endings
pub mod Lines
pub mod Outgoing
pub mod Reading
