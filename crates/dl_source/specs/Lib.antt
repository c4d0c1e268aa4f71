pub mod Source
pub mod WeakestTest
pub mod Tables
pub mod NumberedTables
pub mod Answer
pub mod AnswerFits
pub mod Spelling
pub mod Faults
pub mod Fetched
-- words of private functions, and of what values are made of
pub mod Inside
