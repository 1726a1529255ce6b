pub mod Layout
pub mod Refusals
pub mod Decoded
pub mod Encoded
