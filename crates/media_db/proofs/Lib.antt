pub mod Chains
pub mod CopyLists
pub mod Dropped
pub mod Listed
pub mod Updates
