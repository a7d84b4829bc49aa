pub mod Tests
pub mod Writing
pub mod Expressions
pub mod Reading
pub mod Counting
pub mod Awaited
pub mod Walking
pub mod Rules
