pub mod Lines
pub mod Room
pub mod Steps
pub mod ReadBack
