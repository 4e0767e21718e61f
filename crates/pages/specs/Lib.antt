pub mod Layout
pub mod Page
pub mod Sound
pub mod Events
pub mod Holds
pub mod Reports
pub mod Fitting
pub mod Laid
