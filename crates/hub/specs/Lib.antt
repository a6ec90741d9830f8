pub mod Asking
pub mod Putting
pub mod Standing
pub mod InMemory
