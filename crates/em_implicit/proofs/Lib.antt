pub mod Choosing
pub mod Following
mod Matched
pub mod Matching
pub mod Stems
pub mod Told
