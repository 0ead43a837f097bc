pub mod Firsts
pub mod Turns
pub mod Sought
pub mod Named
