mod Names
mod Clocks
mod Readings
pub mod Ranking
pub mod Runners
mod Alike
mod Lines
mod Onward
pub mod Led
pub mod Telling
pub mod Covering
pub mod Taking
pub mod Undone
pub mod Leading
pub mod Later
pub mod Moving
pub mod Results
pub mod Refusing
pub mod Finishing
pub mod Within
mod Keys
mod Scans
pub mod Equal
mod Swap
mod Mirrored
mod MainLines
mod Twins
mod Turned
mod Mirroring
pub mod Covered
pub mod Declaring
pub mod Forgets
mod Apart
mod Offers
mod Meeting
mod Cancelling
mod AtOnce
mod Holds
mod SameOrders
