pub mod Requests
pub mod Playing
pub mod Judging
