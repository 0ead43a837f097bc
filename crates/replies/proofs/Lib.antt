pub mod Integers
pub mod Tables
pub mod Unknown
