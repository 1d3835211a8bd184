pub mod Counts
pub mod Stale
