mod Lines
mod Doubles
mod Splitting
mod Setting
