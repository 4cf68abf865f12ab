pub mod Unrolling
pub mod Parts
pub mod Counting
pub mod Reading
pub mod Holding
pub mod Found
pub mod Appending
pub mod NextOnes
pub mod Changes
pub mod Column
pub mod Telling
pub mod NextTyped
pub mod Continuing
pub mod Typing
mod NextRecord
pub mod RightBehind
pub mod LastRead
pub mod Fronts
