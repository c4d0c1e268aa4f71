pub mod Codes
pub mod Answers
pub mod Calls
pub mod Many
pub mod Batches
pub mod Handles
pub mod Lives
-- words of what a handle owns
pub mod Ownership
