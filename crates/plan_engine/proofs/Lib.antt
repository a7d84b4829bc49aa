pub mod Acting
pub mod Taking
pub mod Running
