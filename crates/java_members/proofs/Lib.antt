mod Lists
mod Steps
mod Levels
mod Ways
mod Accessible
mod Above
mod Picked
