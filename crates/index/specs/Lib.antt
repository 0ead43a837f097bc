pub mod Keys
pub mod Links
