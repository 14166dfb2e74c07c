mod Dollars
mod Layering
mod Making
pub mod Sparing
mod Splits
mod Undefined
