pub mod Variants
pub mod Counting
