pub mod Slots
pub mod Mounting
pub mod Inventory
pub mod Labelling
pub mod NewVolumes
