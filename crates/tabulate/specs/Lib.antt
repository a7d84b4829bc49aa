pub mod Tabulate
