pub mod Changes
pub mod Counted
pub mod Walks
pub mod Watch
