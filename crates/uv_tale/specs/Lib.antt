pub mod Tale
pub mod Alike
