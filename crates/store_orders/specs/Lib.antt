pub mod Ends
pub mod Performed
pub mod Shown
pub mod Past
