pub mod Limits
pub mod Grammar
pub mod Tests
pub mod Asked
