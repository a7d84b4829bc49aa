pub mod Steps
pub mod Along
pub mod Filling
pub mod Laying
pub mod Claims
