pub mod Counts
pub mod Settling
pub mod Kept
pub mod Reached
pub mod SendCounts
