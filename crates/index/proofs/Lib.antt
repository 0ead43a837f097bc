pub mod Searching
pub mod Linked
pub mod Found
