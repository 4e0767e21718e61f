pub mod Chains
pub mod Leveled
pub mod Fours
pub mod Stated
pub mod Steps
pub mod Taking
pub mod Tasked
pub mod Whole
