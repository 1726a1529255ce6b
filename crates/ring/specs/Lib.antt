pub mod Standing
pub mod Held
pub mod Answers
pub mod Calls
pub mod Runs
