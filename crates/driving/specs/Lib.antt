pub mod Plans
pub mod Endings
pub mod Saying
pub mod Claims
pub mod Going
