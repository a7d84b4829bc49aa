pub mod Items
pub mod Going
pub mod Courses
pub mod Tracing
pub mod Driving
pub mod Traced
pub mod Alike
pub mod Claims
