pub mod Calls
pub mod Chains
pub mod Holding
pub mod Image
pub mod Undo
