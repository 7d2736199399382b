pub mod Loops
pub mod Lengths
pub mod ResourceLengths
pub mod ChangeLengths
