pub mod BatchCounts
pub mod EventCounts
pub mod FaultOrigins
pub mod FaultRounds
mod KeyTexts
pub mod PartAnswers
pub mod TermLoads
