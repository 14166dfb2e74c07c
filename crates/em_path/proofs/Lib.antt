pub mod Lemmas
pub mod Spelling
mod Testing
mod Walking
mod Words
