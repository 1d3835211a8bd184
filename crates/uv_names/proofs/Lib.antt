mod Names
pub mod Changed
pub mod Walk
pub mod Rebound
pub mod Counted
mod Grows
pub mod Stales
