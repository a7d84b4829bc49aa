pub mod Filling
pub mod Tests
pub mod Holding
pub mod Claims
