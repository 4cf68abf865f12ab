pub mod DiskCalls
pub mod Free
pub mod Gaps
pub mod Index
pub mod PageError
pub mod Pages
pub mod Putting
pub mod Tables
