pub mod Tables
pub mod Options
pub mod Requests
pub mod Status
