pub mod Pieces
pub mod Flatness
mod Stamps
