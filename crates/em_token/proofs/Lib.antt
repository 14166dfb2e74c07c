pub mod Checked
pub mod Tokens
