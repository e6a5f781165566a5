mod Operands
mod Promotion
mod Typed
