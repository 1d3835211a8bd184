pub mod Drafts
pub mod Grammar
pub mod Tests
pub mod Laws
pub mod Texts
pub mod Repeats
pub mod Session
