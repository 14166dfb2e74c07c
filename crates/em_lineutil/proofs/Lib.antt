mod Passing
mod Places
mod Digits
mod Parting
