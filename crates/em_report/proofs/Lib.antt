pub mod Joins
pub mod Steps
pub mod Languages
pub mod Digits
pub mod Pieces
pub mod Wholes
pub mod Faults
