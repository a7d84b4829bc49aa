pub mod Held
pub mod Unpacked
pub mod Ways
pub mod Counting
pub mod Calls
pub mod Sheets
pub mod Answered
pub mod Claims
