pub mod Calls
pub mod Faults
pub mod Lending
pub mod Numbers
pub mod Ordered
pub mod Outside
pub mod Refusals
pub mod Text
