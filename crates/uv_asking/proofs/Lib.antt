pub mod Names
pub mod Found
pub mod FieldWords
pub mod Apart
pub mod Agreement
