pub mod Fronts
pub mod Turns
pub mod Written
pub mod Law
pub mod Printed
