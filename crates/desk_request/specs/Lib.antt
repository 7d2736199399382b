pub mod Framing
pub mod HeadEnds
pub mod Heads
pub mod Reading
pub mod Requests
pub mod Steps
