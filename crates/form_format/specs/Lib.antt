pub mod Writing
pub mod Reading
pub mod Law
pub mod Lent
