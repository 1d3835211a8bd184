pub mod Fires
pub mod Freeing
pub mod Kept
pub mod Lists
mod Names
pub mod Starts
