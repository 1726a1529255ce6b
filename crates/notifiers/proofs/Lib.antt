pub mod Feedback
pub mod Quantized
pub mod Runs
pub mod Values
