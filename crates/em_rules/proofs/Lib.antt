pub mod Indexing
pub mod Lawful
pub mod Told
pub mod Undotting
