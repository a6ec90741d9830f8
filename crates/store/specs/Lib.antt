pub mod Stores
pub mod Memories
pub mod Records
pub mod Logs
