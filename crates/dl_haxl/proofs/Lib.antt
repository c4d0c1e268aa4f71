pub mod TicketLooks
pub mod KeyPairs
pub mod Exploration
pub mod TicketReads
pub mod BatchEnds
pub mod HandoverLemmas
pub mod RoundSteps
pub mod EvaluationLemmas
mod Stretches
mod Faults
pub mod JobCounts
