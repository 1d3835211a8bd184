pub mod Working
pub mod Undo
pub mod Calls
