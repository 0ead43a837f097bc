pub mod Given
pub mod Siblings
