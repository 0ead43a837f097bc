pub mod Lent
pub mod Told
