mod Pausing
mod Shells
