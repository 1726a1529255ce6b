pub mod Step
pub mod Wait
pub mod Act
pub mod Table
pub mod Place
pub mod Pass
pub mod Bounds
pub mod Single
