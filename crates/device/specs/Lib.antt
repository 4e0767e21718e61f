pub mod Lines
pub mod Does
pub mod Ties
pub mod Safe
pub mod Images
pub mod Flips
pub mod Costs
