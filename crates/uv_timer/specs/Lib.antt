pub mod Changes
pub mod Hook
pub mod Timed
pub mod Timers
