pub mod Acts
pub mod Flows
pub mod Standing
pub mod Forms
pub mod Analyses
pub mod Runs
