pub mod Witness
pub mod Breaks
pub mod Seeking
