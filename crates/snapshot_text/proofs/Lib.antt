pub mod CanWrite
pub mod Sizes
pub mod Lengths
