pub mod Answers
pub mod Heap
pub mod Words
pub mod Calls
pub mod Steps
pub mod Every
