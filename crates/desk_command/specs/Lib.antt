pub mod Routes
pub mod Lines
pub mod Outcomes
pub mod Fields
pub mod Commands
pub mod Places
pub mod Targets
