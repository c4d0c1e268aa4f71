pub mod Asking
pub mod FaultPath
pub mod JsonText
pub mod Numbers
pub mod Script
pub mod Seeking
pub mod TermLoads
pub mod Xml
