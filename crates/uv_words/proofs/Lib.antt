pub mod Asked
pub mod Built
