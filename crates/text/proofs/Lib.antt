pub mod Listing
pub mod Printing
pub mod Located
pub mod Length
pub mod Samples
