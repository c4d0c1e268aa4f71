pub mod Migrated
pub mod Migration
pub mod LaterVersion
