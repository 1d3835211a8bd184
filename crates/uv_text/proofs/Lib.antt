pub mod Commands
pub mod Cuts
mod Digits
pub mod Names
pub mod Pieces
pub mod Played
pub mod Printed
pub mod Recordings
pub mod Showing
pub mod Sizes
pub mod StepLines
pub mod Wholes
