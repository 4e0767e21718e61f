pub mod House
pub mod Promise
pub mod Rows
pub mod One
pub mod Fine
pub mod Summed
pub mod Alike
pub mod Seats
