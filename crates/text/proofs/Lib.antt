mod Digits
pub mod Pasting
mod Turns
mod ReadBack
