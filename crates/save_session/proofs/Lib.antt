pub mod Heading
pub mod Keeping
pub mod Leaving
pub mod Placing
pub mod Running
pub mod Sending
pub mod Views
