mod Placing
mod Lines
mod Reading
