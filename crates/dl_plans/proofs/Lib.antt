mod AskedKeys
mod BatchTexts
pub mod Bytes
pub mod CommandMatches
mod JoinedTables
mod MigratedAnswers
pub mod Runs
mod SameFaults
mod TableNames
pub mod ThreadSafety
