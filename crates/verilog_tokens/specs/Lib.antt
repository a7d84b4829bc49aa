pub mod Characters
pub mod Words
pub mod Tokens
pub mod Table
pub mod Rows
pub mod Pieces
