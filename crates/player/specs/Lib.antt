pub mod Calls
pub mod Faults
pub mod Outcomes
pub mod Plays
