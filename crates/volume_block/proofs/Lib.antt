pub mod Appending
pub mod Blocks
pub mod Deciding
pub mod Finding
mod Heads
mod Labels
pub mod Forms
pub mod Lengths
pub mod OneBlock
pub mod Parts
pub mod Spelled
pub mod Sizes
mod Splits
pub mod Whole
mod Zeros
