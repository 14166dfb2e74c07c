pub mod Kinds
pub mod Shell
pub mod Seen
pub mod Words
