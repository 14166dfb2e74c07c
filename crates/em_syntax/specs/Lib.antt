pub mod Pieces
pub mod Scripts
pub mod Nesting
pub mod Texts
