mod Degrees
mod Forests
