pub mod Desk
pub mod Numbers
pub mod Put
pub mod Raw
pub mod Report
pub mod Run
pub mod Stages
pub mod Words
