pub mod Machine
pub mod Alike
pub mod Units
pub mod Decode
pub mod Steps
pub mod Carried
pub mod Runs
pub mod Events
