pub mod Did
pub mod Safe
pub mod Kept
pub mod Image
pub mod Loops
pub mod Commit
pub mod Costs
