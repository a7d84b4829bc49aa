pub mod Counting
pub mod Words
pub mod Numbers
pub mod Lines
pub mod Names
pub mod Waiting
