pub mod HeapOrder
pub mod Lists
pub mod MoveLemmas
pub mod Names
pub mod OrderLemmas
pub mod PlaceLemmas
pub mod Ranks
pub mod UndoLemmas
