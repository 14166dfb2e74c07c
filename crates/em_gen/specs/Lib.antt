pub mod Generated
pub mod Flat
