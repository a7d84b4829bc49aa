pub mod Growing
pub mod Rows
pub mod Worth
pub mod Walking
pub mod Rising
