pub mod Reference
pub mod Live
pub mod Law
pub mod Sessions
