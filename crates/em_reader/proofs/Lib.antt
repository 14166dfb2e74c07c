mod Catching
mod Pieces
mod States
mod Wholes
mod Passed
mod Plain
