pub mod Pairs
pub mod Lining
pub mod Marking
pub mod Flooring
pub mod Posting
pub mod Raising
pub mod Counting
pub mod Naming
