pub mod Numbers
pub mod Records
pub mod Places
pub mod Lent
pub mod Causes
pub mod Read
