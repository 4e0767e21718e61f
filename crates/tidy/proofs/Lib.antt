pub mod Feeds
pub mod Reasons
