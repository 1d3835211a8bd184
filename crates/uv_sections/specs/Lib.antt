pub mod Behind
pub mod Moved
pub mod Section
