pub mod Limits
pub mod Taking
pub mod Next
pub mod Taken
pub mod Exchanges
pub mod Runs
pub mod Headline
pub mod Steps
