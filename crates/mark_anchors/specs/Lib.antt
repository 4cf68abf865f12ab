pub mod EdgeChunks
pub mod Edges
pub mod Ended
pub mod Force
pub mod Gathered
pub mod Intervals
pub mod Keeping
pub mod Naming
