pub mod Lists
pub mod Lookups
pub mod Members
pub mod WithoutNumbers
pub mod Repeats
pub mod Spelling
pub mod Refusals
