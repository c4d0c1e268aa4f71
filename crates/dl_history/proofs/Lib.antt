pub mod ListLemmas
pub mod EntryLists
pub mod Pasts
pub mod CellBatches
pub mod PastEnds
pub mod Endings
pub mod BatchEndings
pub mod Outcomes
mod JournalLemmas
pub mod CellLists
mod BegunCells
pub mod CellsOfCalls
pub mod AllCellsEnd
mod CellOutcomes
pub mod PlaceCounts
pub mod AccountCounts
pub mod Agreement
pub mod OneHistory
pub mod HistoryLemmas
pub mod HistoryLaws
mod PassLemmas
pub mod Tickets
pub mod TicketsAfterReads
pub mod ThreadSafety
