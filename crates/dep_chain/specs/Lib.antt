pub mod Chains
pub mod Depends
pub mod Labelling
pub mod Marks
pub mod Need
pub mod Purging
