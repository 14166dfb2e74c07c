pub mod Running
pub mod Serials
