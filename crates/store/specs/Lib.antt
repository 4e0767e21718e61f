pub mod Layout
pub mod Works
pub mod Shows
pub mod Finds
pub mod Room
pub mod Entry
