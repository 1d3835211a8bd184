pub mod Parts
pub mod Trace
pub mod Commands
pub mod Reading
pub mod State
pub mod Image
pub mod Recording
pub mod Recorded
