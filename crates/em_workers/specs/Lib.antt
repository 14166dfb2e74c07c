pub mod Turns
pub mod Notes
pub mod Printing
pub mod Lending
pub mod Commits
pub mod Builds
