pub mod Pieces
pub mod Kinds
pub mod Limits
pub mod Numbers
pub mod Refusals
pub mod Lines
pub mod Traces
