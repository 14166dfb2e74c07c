pub mod Texts
pub mod Functions
