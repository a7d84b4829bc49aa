pub mod Judging
pub mod Meeting
