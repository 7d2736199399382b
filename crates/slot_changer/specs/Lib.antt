pub mod Drives
pub mod Taking
pub mod Picking
pub mod Committing
pub mod Inside
