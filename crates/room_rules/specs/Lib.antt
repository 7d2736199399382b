pub mod Pools
pub mod Times
