mod Bytes
mod Comments
mod Cutting
mod Literals
mod Marks
mod Words
