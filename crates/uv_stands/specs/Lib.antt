pub mod Stands
pub mod Ready
pub mod Doing
pub mod Asking
pub mod PackedLines
pub mod PackedPlaces
