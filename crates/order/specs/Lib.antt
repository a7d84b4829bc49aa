pub mod Calls
pub mod Users
pub mod Claim
pub mod PlainRun
pub mod Misread
