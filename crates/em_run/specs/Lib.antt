pub mod Codes
pub mod Runs
pub mod Meanings
pub mod Serial
pub mod Examples
