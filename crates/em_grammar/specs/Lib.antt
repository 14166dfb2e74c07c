pub mod Production
pub mod Machine
pub mod Checks
pub mod Faults
pub mod Gives
