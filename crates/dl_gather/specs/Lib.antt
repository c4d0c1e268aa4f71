pub mod Tasks
pub mod Gathering
pub mod Runs
