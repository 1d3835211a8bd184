mod Collected
mod Firsts
pub mod Names
mod Order
mod Repeating
