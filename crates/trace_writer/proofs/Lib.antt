pub mod Batches
pub mod Laying
