pub mod Cuts
pub mod Many
pub mod Puts
pub mod Back
pub mod Forth
pub mod Ranges
