pub mod Held
pub mod Fits
pub mod Ready
pub mod Applying
pub mod Changing
pub mod Views
pub mod Invariant
pub mod Alike
