-- The words of private functions, which no public clause reaches.
pub mod NewCells
pub mod Dues
pub mod DueLists
pub mod EventCalls
pub mod Preparation
pub mod CloseSteps
