pub mod Settling
pub mod Taking
pub mod Numbers
pub mod Claims
