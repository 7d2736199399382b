pub mod Ceilings
mod Turning
