pub mod Works
pub mod Cells
pub mod Trials
pub mod Crash
