pub mod Cutting
pub mod Figures
pub mod Fields
pub mod Progress
pub mod Laws
