pub mod Retimed
pub mod Shift
pub mod Earliest
