mod Spotting
mod Levels
mod Commands
mod Linked
