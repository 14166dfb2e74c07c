mod Wording
mod Spelling
mod Matching
