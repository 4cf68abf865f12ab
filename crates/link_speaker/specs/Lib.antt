pub mod Errors
pub mod LinkLine
pub mod Outcomes
pub mod Speaking
