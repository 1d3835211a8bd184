pub mod Answers
pub mod Binding
pub mod Counting
pub mod Faults
pub mod Loops
pub mod Named
mod Names
pub mod Open
pub mod Plans
pub mod Steps
