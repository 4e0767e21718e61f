pub mod Eval
pub mod Plan
pub mod Flat
pub mod Noted
pub mod Sheet
pub mod Slate
