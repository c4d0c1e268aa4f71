pub mod Steps
pub mod Tables
pub mod Readings
pub mod Images
