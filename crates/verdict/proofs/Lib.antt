pub mod Drawing
pub mod Ledgers
pub mod Marks
pub mod Missing
pub mod Shows
pub mod Steps
