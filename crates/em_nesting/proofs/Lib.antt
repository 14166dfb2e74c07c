mod Valid
mod Placing
