pub mod Choosing
pub mod Gathering
