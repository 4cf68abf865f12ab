pub mod Fronts
pub mod Passing
pub mod ReadError
pub mod Streams
