pub mod Members
pub mod Rising
pub mod Deciding
mod Kept
