pub mod Blanks
pub mod Spans
pub mod Numbers
pub mod Constructs
