pub mod Body
pub mod Faults
pub mod Head
pub mod Live
pub mod Root
pub mod Slots
pub mod Survivors
