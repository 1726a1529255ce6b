pub mod Decimals
pub mod Failures
pub mod Hexadecimals
pub mod Letters
pub mod Pairs
pub mod Parts
pub mod Separators
