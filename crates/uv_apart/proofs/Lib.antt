mod Names
pub mod Cases
pub mod Changed
pub mod Walk
pub mod Kept
pub mod Held
pub mod Pool
pub mod Taken
pub mod Cancels
pub mod Beside
