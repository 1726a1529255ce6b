pub mod Stands
pub mod Expiries
pub mod Recovery
