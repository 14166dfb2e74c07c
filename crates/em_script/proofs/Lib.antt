mod Shaped
mod Asking
mod Words
mod Alike
mod Subs
mod Meaning
pub mod Strands
