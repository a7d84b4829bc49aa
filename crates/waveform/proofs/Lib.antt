pub mod Waveform
pub mod Samples
