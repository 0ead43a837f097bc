pub mod Rows
pub mod Tables
pub mod Layout
pub mod Laid
pub mod Typed
pub mod Words
