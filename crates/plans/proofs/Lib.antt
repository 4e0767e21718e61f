pub mod Drafts
pub mod Evals
pub mod Parts
pub mod Simple
pub mod Written
