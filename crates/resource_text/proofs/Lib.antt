pub mod Apart
pub mod Allowed
pub mod DayOrder
pub mod Composing
pub mod Dates
pub mod Documents
pub mod Entries
pub mod Items
