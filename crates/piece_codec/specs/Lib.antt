pub mod Fits
pub mod Formats
pub mod Reading
pub mod Record
pub mod Spelling
pub mod Stream
