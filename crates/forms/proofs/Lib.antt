pub mod Numbers
pub mod Sames
pub mod Members
