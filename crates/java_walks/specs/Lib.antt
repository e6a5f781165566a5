pub mod Parts
pub mod Texts
pub mod Nodes
pub mod Every
