pub mod Lexed
pub mod Claims
