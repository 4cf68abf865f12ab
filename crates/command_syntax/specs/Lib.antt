pub mod Few
pub mod Values
