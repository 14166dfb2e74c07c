mod Behind
mod Pairing
