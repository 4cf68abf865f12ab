pub mod Column
pub mod Told
pub mod Reader
pub mod Writer
pub mod Runs
pub mod Reading
pub mod NextOnes
