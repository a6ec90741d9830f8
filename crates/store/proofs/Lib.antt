pub mod Puts
pub mod Records
pub mod Logs
