pub mod Codes
pub mod Answers
pub mod Named
pub mod Contents
pub mod Calls
pub mod Many
pub mod Batches
pub mod Handles
pub mod Lives
pub mod Readings
-- words of what a handle owns
pub mod Ownership
