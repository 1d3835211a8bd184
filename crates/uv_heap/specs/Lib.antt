pub mod Order
pub mod Array
pub mod Moves
pub mod Undo
pub mod Places
