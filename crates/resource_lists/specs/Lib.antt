pub mod Lists
pub mod Kinds
pub mod Counts
pub mod Adding
pub mod Room
pub mod Changing
