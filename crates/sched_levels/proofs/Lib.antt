pub mod Bases
pub mod Dates
pub mod Decided
pub mod Months
pub mod Plans
