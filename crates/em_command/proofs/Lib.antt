pub mod Settling
mod Words
mod Pieces
