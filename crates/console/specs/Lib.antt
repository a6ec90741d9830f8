pub mod Inputs
pub mod Sheets
