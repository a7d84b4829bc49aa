pub mod Chosen
pub mod Numbers
pub mod Faults
pub mod Head
pub mod Order
pub mod Tables
pub mod Claims
pub mod Entries
