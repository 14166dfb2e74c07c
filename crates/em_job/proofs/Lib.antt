pub mod Stopping
mod Entries
mod Reading
mod Ended
mod Stepping
mod Numbered
mod OneEffect
mod Idling
mod Removing
mod Keeping
