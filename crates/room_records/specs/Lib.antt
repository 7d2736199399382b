pub mod Showing
pub mod Amending
pub mod Deleting
pub mod Purging
