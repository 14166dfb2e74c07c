pub mod Outside
pub mod Calls
pub mod Faults
pub mod Memory
pub mod Reasons
