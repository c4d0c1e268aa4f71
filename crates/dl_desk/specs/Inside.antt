pub mod StoredBatch
pub mod Preparation
pub mod MemoPlaces
pub mod TableName
pub mod TableMap
pub mod TableBook
pub mod Marks
