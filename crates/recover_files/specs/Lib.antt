pub mod Bytes
pub mod FileBytes
pub mod Sections
pub mod Stages
pub mod StreamAt
