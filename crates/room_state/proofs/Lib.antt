pub mod Doing
pub mod Placing
pub mod Losing
pub mod Writing
pub mod Prepared
pub mod Listed
