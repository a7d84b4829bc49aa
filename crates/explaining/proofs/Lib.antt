pub mod Printing
pub mod Walking
pub mod Reading
pub mod Threads
pub mod Meant
pub mod Samples
