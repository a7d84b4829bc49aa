pub mod Laying
pub mod Wholes
pub mod Rowed
pub mod Spelled
pub mod Links
pub mod Claims
