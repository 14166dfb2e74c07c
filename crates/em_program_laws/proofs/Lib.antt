mod Courses
mod Parts
mod Leaving
mod Replacing
mod Heading
mod Showing
mod Sound
