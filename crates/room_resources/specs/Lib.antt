pub mod Called
pub mod Defining
pub mod Dropping
pub mod Users
