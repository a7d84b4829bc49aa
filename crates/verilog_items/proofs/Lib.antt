pub mod Turns
pub mod Noting
pub mod Taking
pub mod Declaring
pub mod Variables
pub mod Driving
pub mod Reading
pub mod Claims
