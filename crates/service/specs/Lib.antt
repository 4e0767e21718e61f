pub mod Planned
pub mod Answers
