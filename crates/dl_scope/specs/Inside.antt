-- The words of private functions, which no public clause reaches.
pub mod Results
pub mod ThreadRuns
pub mod ServedPlans
pub mod Tasks
pub mod ThreadResults
