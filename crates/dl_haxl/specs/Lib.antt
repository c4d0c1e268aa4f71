pub mod PlanEntries
pub mod Future
pub mod Inside
pub mod Pairs
pub mod Rounds
pub mod Run
pub mod RunFaults
pub mod RunView
