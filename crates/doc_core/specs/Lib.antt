pub mod Limits
pub mod Making
pub mod Refusal
pub mod Standing
pub mod Taking
pub mod Drafting
pub mod Typing
