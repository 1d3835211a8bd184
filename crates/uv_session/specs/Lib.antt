pub mod Shown
pub mod Held
pub mod Breaks
pub mod Sets
pub mod Moving
