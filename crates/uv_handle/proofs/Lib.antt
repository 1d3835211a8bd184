pub mod Changed
pub mod Closed
pub mod Counts
pub mod Names
pub mod Walked
