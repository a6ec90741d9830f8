pub mod Puttings
pub mod Steppings
