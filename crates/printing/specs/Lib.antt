pub mod Said
pub mod Levels
pub mod Roots
pub mod Heads
