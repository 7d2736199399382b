pub mod Ended
pub mod Ending
pub mod Finishing
pub mod Parts
pub mod Prepared
