pub mod Read
pub mod Claims
