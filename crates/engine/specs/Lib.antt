pub mod Works
pub mod Whole
pub mod Done
