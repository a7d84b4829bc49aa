pub mod Verilog
pub mod Printing
