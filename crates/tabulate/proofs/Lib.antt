pub mod Tabulate
pub mod Samples
