pub mod Jumps
pub mod Finding
pub mod Mapping
pub mod Keeping
pub mod Singles
