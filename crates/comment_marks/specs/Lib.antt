pub mod Standing
pub mod Greatest
pub mod Decisions
