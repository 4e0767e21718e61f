pub mod Papers
pub mod Always
pub mod Keys
pub mod Copies
pub mod Serving
