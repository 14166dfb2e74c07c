pub mod Steps
pub mod Reading
pub mod Heads
pub mod Rounds
