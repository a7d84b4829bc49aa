pub mod Steps
pub mod Along
pub mod Reading
pub mod Filling
pub mod Holding
pub mod Laying
