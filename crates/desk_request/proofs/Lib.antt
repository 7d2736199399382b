pub mod Headers
pub mod Finding
pub mod Ending
pub mod Filling
pub mod Searching
pub mod Answering
pub mod OneReading
pub mod OfAll
