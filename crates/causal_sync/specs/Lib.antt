pub mod LinkError
pub mod Frames
pub mod Reading
pub mod Hearing
pub mod Sent
pub mod State
pub mod Buffer
pub mod Taking
