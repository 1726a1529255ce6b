pub mod Settling
pub mod Beginning
