pub mod Paths
pub mod Putting
pub mod Deciding
pub mod Forgetting
pub mod Passing
pub mod Walked
pub mod Shown
