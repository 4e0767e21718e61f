pub mod Asks
pub mod Draws
