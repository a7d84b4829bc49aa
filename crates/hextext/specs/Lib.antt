pub mod Characters
pub mod Scanning
pub mod Decoding
