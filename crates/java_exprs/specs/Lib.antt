pub mod Rules
pub mod Exprs
pub mod Creation
