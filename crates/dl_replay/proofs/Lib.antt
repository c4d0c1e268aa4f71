pub mod Lines
pub mod Lists
pub mod FileFaults
