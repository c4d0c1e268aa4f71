pub mod Codes
pub mod Answers
pub mod Keys
pub mod Cuts
pub mod KeyLists
pub mod Tables
-- words of what a handle owns
pub mod Ownership
