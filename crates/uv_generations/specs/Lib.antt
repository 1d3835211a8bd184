pub mod Renamed
pub mod More
pub mod Youngest
