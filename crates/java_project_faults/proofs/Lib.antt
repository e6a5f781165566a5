mod Order
mod Kept
mod Rows
