pub mod Waits
pub mod Links
pub mod Learnt
pub mod Telling
