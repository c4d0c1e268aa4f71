pub mod DeskBox
pub mod Replies
