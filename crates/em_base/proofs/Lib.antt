pub mod Lemmas
mod Lists
mod Maps
mod Numerals
mod Orders
mod Trimming
