pub mod Form
pub mod Rows
pub mod Read
pub mod Image
