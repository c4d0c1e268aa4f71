pub mod Errors
pub mod KeyLemmas
pub mod KeyTexts
pub mod TextPairs
pub mod ShortTexts
pub mod Repeats
pub mod Names
pub mod TableLimitLemmas
