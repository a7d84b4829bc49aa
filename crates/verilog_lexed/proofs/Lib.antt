pub mod Steps
pub mod Digits
pub mod Pieces
pub mod Words
pub mod Lexed
