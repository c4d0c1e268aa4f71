pub mod Cuts
pub mod Rows
