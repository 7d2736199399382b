pub mod Asking
pub mod Grouping
pub mod Heading
pub mod Fitting
pub mod Beginning
pub mod Writing
pub mod Aborting
