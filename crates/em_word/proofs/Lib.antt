mod Plans
mod Meaning
mod Counting
mod Holding
mod Stepping
mod Landing
mod Seeing
pub mod Literals
