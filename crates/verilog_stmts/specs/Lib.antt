pub mod Steps
pub mod Events
pub mod Stmts
pub mod Written
pub mod Claims
