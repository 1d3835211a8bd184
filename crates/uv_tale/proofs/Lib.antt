pub mod Names
mod Order
pub mod Aside
pub mod Reduced
pub mod Given
pub mod Keeping
pub mod Settled
pub mod Made
pub mod Places
pub mod Making
pub mod Timers
pub mod Form
pub mod Told
pub mod Reading
pub mod Pooled
pub mod Lines
pub mod Steps
