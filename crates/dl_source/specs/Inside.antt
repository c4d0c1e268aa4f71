pub mod Findings
pub mod Reading
pub mod Members
