pub mod Passed
pub mod Outside
pub mod Wanting
