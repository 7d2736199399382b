pub mod Reading
pub mod Lists
pub mod Words
pub mod Days
pub mod Resources
