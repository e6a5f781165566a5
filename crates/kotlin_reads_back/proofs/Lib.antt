mod Joined
mod Paired
mod SameTree
mod Worked
