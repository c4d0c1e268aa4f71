pub mod Told
pub mod Replay
pub mod Reading
pub mod File
