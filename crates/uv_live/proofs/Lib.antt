pub mod Absorbed
pub mod Entered
pub mod Faults
pub mod Legal
pub mod Meeting
pub mod Names
mod Noted
mod Numbered
pub mod Own
pub mod Places
pub mod Settled
pub mod Shares
