pub mod Hands
