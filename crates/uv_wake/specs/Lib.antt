pub mod Tickets
pub mod Seats
pub mod Rule
pub mod Steps
pub mod Passes
