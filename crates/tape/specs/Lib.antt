pub mod Format
pub mod Faults
pub mod Reading
pub mod Whole
pub mod Law
pub mod Printed
