pub mod Text
pub mod Answered
