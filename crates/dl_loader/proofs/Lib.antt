mod FirstTraces
pub mod NewTickets
pub mod LoadCells
pub mod NewCells
pub mod NextEvent
mod StopCause
pub mod CellEnds
pub mod DueLemmas
pub mod Preparations
pub mod BookAfterEvent
mod CallKnowledge
pub mod AdditionLemmas
pub mod TicketsStay
mod AccountLemmas
mod CloseLemmas
mod Sources
pub mod Naming
pub mod ThreadSafety
pub mod Closures
pub mod JobEnds
pub mod EndEntries
mod SerialLemmas
pub mod JobNow
