pub mod Forms
pub mod Keys
pub mod Lent
pub mod Fixed
