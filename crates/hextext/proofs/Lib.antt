pub mod Characters
pub mod Steps
pub mod Scanning
pub mod Decoding
pub mod Sheets
pub mod Spots
pub mod Samples
