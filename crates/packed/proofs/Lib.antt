pub mod Masks
pub mod Runs
pub mod Slots
pub mod Cells
