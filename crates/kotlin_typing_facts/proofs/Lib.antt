mod Told
mod Alternatives
