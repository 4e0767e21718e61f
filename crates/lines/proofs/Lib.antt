pub mod Parts
pub mod Settles
pub mod Turns
pub mod Caches
