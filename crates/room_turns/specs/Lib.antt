pub mod Steps
pub mod Orderly
pub mod Runs
pub mod Served
pub mod Calls
