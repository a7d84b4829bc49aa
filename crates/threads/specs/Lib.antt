pub mod Resting
pub mod Alone
pub mod View
