pub mod Changing
pub mod Committing
pub mod Picking
pub mod Pushing
pub mod Taking
