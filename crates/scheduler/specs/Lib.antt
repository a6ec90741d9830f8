pub mod Accesses
pub mod Cores
pub mod Marks
pub mod Reading
pub mod Slots
