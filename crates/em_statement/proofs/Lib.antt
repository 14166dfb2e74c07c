mod Blotted
mod Blank
mod Assigned
