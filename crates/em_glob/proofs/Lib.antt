mod Reading
mod Fitting
mod Way
mod Matching
