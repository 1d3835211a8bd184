pub mod Live
pub mod Status
