pub mod Waveform
pub mod Claims
