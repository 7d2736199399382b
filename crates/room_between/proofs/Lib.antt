pub mod Records
pub mod Keeping
pub mod Quieting
pub mod Stepping
pub mod Planning
