pub mod Key
pub mod TaleKey
pub mod Formed
pub mod Told
pub mod Computed
pub mod Listing
pub mod Holding
