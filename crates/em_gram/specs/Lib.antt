pub mod Patterns
pub mod Nesting
pub mod Simple
pub mod Line
pub mod Same
