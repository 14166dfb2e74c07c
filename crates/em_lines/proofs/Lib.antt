mod Trimmed
mod Rows
mod Numbered
mod Bared
mod Keeping
mod Folded
