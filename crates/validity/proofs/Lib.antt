pub mod Folds
pub mod Made
pub mod Walks
pub mod Short
pub mod Tables
pub mod Words
pub mod Valid
