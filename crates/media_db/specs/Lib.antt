pub mod Edits
pub mod Rows
pub mod Streams
pub mod Usable
