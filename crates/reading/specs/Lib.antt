pub mod Errors
pub mod Beginnings
pub mod Levels
pub mod Plans
pub mod Statements
pub mod Took
pub mod Tasks
pub mod Tokens
