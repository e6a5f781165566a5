pub mod Uncommented
