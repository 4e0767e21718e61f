pub mod Walks
pub mod Caches
pub mod Fuses
pub mod FusesLemmas
