pub mod Found
pub mod JobLists
pub mod Keeps
pub mod Kept
pub mod Leaving
mod Looks
pub mod Names
pub mod Numbers
pub mod Replays
pub mod Results
pub mod Standing
pub mod Tellings
pub mod Turns
