pub mod TaskLemmas
pub mod Rounds
pub mod Replays
pub mod Counts
pub mod DigestBytes
pub mod Contents
pub mod Jobs
