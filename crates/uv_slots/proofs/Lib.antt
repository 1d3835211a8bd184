pub mod Names
pub mod Orders
pub mod RelabeledSlots
pub mod Relabeling
pub mod Arranging
mod Naming
pub mod Whole
pub mod Grows
pub mod Moved
pub mod Named
pub mod Reached
pub mod Buries
pub mod Keeping
