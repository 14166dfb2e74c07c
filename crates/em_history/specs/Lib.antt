pub mod Names
pub mod Histories
