pub mod Memory
pub mod Commits
pub mod Inside
