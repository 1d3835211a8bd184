pub mod Names
pub mod Cases
pub mod Later
pub mod Slots
mod ByLater
pub mod Steps
pub mod Short
pub mod Retimed
pub mod Base
pub mod Timed
pub mod Alike
pub mod Reached
