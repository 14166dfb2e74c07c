mod Following
mod Laps
mod Whole
mod Bare
