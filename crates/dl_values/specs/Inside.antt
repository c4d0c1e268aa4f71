pub mod HashedText
pub mod JoinedText
pub mod Json
pub mod KeyText
pub mod ShortText
pub mod Text
