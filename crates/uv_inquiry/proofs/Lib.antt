mod Names
pub mod Steps
pub mod Lines
pub mod Cuts
pub mod Pieces
pub mod Inquiries
pub mod Ops
pub mod Once
pub mod Sessions
