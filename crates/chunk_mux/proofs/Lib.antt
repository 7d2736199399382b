pub mod Allowing
pub mod Filling
pub mod Counting
mod Faults
mod Holding
pub mod InOrder
pub mod Members
pub mod Joining
pub mod Numbers
pub mod Packing
pub mod Placing
mod Reading
mod SealedBlocks
pub mod Sections
pub mod Spans
mod Walking
mod Written
