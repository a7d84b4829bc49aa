pub mod TraceRow
