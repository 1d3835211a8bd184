mod Names
pub mod Slots
pub mod Twice
pub mod Base
pub mod Alike
pub mod Reached
pub mod Early
