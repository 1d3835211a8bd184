pub mod AnswersTold
mod Asked
mod Bodies
mod ClosesOnce
pub mod Coming
mod Contents
mod Counted
mod Dated
mod Did
pub mod Documents
pub mod DueTold
mod Follows
pub mod FromOutside
pub mod GettingOn
mod Gone
pub mod Histories
mod Heard
mod Holding
pub mod IdLists
mod IoFollows
mod Keeping
mod KeptSteps
mod Known
pub mod Leading
mod Lemmas
mod Lined
mod Lives
pub mod Names
mod OpCases
mod OpEffects
mod OpsOnce
mod Pooling
mod Quiet
pub mod Reaching
pub mod RefusedOnce
pub mod RefusedOrder
mod Saying
mod Sends
mod Standing
mod Started
pub mod Taking
mod TimerKeys
mod TimersFollow
pub mod TurnsTold
pub mod Waiting
mod WatchersFollow
mod Woken
mod Worked
mod Working
mod Works
