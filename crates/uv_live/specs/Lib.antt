pub mod Course
pub mod Following
pub mod Turning
pub mod Settling
pub mod Running
pub mod Faults
pub mod Working
pub mod Sending
