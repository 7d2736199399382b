pub mod Middle
pub mod Quiet
