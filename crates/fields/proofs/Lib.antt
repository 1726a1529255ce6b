mod Bytes
pub mod Cuts
pub mod Splits
mod Weights
