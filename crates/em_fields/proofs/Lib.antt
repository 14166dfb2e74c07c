mod Places
mod Counting
pub mod Parting
pub mod Joining
