pub mod Searched
pub mod Status
