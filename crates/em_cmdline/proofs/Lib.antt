pub mod Clap
mod Found
mod Sound
