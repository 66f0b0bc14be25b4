pub mod Kinds
pub mod Runs
