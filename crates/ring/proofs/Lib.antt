pub mod Turning
pub mod Order
pub mod Playing
