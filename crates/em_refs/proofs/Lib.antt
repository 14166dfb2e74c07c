mod Plain
mod Nested
pub mod Whole
