pub mod Sets
pub mod View
pub mod Walk
