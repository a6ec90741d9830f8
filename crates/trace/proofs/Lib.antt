pub mod Parting
pub mod Readings
pub mod Saying
pub mod Trips
