mod Told
mod Rows
