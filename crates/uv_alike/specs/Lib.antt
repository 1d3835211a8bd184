pub mod Asks
pub mod Changed
pub mod Contents
pub mod Hides
