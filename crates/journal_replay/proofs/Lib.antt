pub mod Following
pub mod Numbering
pub mod Placing
pub mod FirstCatalogue
pub mod Answering
