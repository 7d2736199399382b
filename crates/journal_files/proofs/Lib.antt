pub mod Single
pub mod Alike
pub mod Once
pub mod Snapshots
