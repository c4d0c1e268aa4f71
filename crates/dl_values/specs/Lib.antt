pub mod Key
pub mod KeyOrder
pub mod KeyFaults
pub mod KeyTexts
pub mod Limits
pub mod TableLimits
pub mod Answering
-- what values are made of
pub mod Inside
