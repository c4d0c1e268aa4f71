-- The words of private functions, which no public clause reaches.
pub mod Exploration
pub mod NameList
pub mod Member
