pub mod Signed
pub mod Writing
pub mod Reading
pub mod Law
pub mod Kinds
