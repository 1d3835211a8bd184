pub mod Names
mod Lengths
pub mod Codes
mod Timers
pub mod Inserted
mod Slots
pub mod States
mod ComputedLemmas
mod TaleCodes
pub mod TaleTells
pub mod FormsTell
pub mod Listed
