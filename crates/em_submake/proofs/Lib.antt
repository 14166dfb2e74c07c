mod Going
mod Turning
pub mod Paths
mod Trying
mod Unique
