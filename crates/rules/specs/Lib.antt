pub mod Writers
pub mod Reading
pub mod Walking
pub mod Judging
