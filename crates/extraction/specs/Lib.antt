pub mod Emitting
pub mod Walking
pub mod Filling
pub mod Extracting
