pub mod Adding
pub mod Flusher
pub mod Locked
pub mod Fitting
pub mod Meeting
pub mod Opening
pub mod Refusal
pub mod Asked
