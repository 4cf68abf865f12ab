pub mod Telling
pub mod TellingSeveral
