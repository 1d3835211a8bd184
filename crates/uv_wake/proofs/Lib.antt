pub mod ProofNames
pub mod Lists
pub mod Names
pub mod SenderSteps
pub mod LoopKeeps
pub mod LoopSteps
pub mod Carries
pub mod Forbidden
