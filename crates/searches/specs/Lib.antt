pub mod Searches
pub mod Standing
