pub mod Works
pub mod Below
pub mod Runs
