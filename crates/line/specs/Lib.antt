pub mod State
pub mod Offer
pub mod Taking
pub mod Calls
pub mod Holds
pub mod Opening
pub mod Reading
pub mod Serving
