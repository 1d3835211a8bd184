-- a reader of `never` begins with Orders and Questions, and comes to Found
pub mod Ops
pub mod Forgetting
pub mod Holding
pub mod Same
pub mod Mates
pub mod Ranks
pub mod Kept
pub mod Orders
pub mod Questions
pub mod Courses
pub mod Spots
pub mod Steps
pub mod Found
pub mod Within
pub mod SameWork
