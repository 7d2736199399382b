pub mod ChainLaws
pub mod Depending
pub mod Labels
pub mod Listed
pub mod Marking
pub mod Needing
pub mod Purges
pub mod Unmarked
