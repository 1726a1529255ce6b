pub mod Fault
pub mod Ranges
pub mod Judged
pub mod Letters
