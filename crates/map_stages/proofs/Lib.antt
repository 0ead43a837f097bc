pub mod Steps
pub mod Opens
pub mod Turns
pub mod Groups
