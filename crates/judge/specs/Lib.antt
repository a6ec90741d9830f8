pub mod Texts
pub mod Prints
