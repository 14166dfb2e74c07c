pub mod Ends
pub mod Lists
pub mod Pipes
pub mod Loops
pub mod Redirections
pub mod Quotes
pub mod Operators
