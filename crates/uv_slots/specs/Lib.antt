pub mod Relabeled
pub mod Arranged
pub mod Tidy
pub mod Buried
pub mod Alike
