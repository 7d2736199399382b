pub mod Actions
pub mod Bases
pub mod Calendar
pub mod Plans
