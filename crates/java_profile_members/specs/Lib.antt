pub mod Methods
pub mod Members
