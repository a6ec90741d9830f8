pub mod Ledgers
pub mod Refusals
pub mod Shown
pub mod Turns
pub mod Users
pub mod Verdicts
