mod Names
pub mod Frame
pub mod Runs
pub mod Steps
